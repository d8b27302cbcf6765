pub mod Pair
pub mod Outcome
