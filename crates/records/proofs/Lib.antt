pub mod RecordsLaws
pub mod LinkRows
pub mod Told
