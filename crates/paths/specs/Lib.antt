-- Tree paths over arrays.
pub mod Arrays
pub mod GrowLaws
pub mod WordLaws
pub mod ExpandLaws
pub mod OwnLaws
pub mod RootLaws
