pub mod Present
pub mod Measures
