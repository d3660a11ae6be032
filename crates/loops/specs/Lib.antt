-- What loops over numbers below a bound compute.
pub mod Below
pub mod Loop
pub mod TestLaws
pub mod PutLaws
pub mod ScanLaws
pub mod FirstLaws
pub mod FoldLaws
pub mod SumLaws
pub mod Ordered
pub mod GatherLaws
pub mod RangeLaws
