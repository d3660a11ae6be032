-- Least-step costs: the definitions, the executable model, and the theorems about it.
pub mod Optimum
pub mod Search
pub mod Slackness
pub mod Lowest
pub mod Solve
pub mod Distance
pub mod PairLaws
pub mod PairBound
