-- The judge of trees over arrays.
pub mod Judge
pub mod LeadLaws
pub mod JudgeLaws
