-- The order and the weight of a listed pairing.
pub mod Weighing
pub mod WeighingLaws
