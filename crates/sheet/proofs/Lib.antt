pub mod ChangeLaws
pub mod EntryLaws
pub mod MoveLaws
pub mod SheetLaws
