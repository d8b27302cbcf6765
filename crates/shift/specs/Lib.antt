pub mod Replayed
pub mod Example
