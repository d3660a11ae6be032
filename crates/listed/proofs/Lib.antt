pub mod LentLaws
pub mod ListServiceLaws
