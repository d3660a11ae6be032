-- Laws of the keys.
pub mod KeysLaws
