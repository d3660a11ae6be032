-- The judges over arrays that hold a job: laws.
pub mod JudgedLaws
pub mod JudgeLaws
