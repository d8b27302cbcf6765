pub mod Body
pub mod Values
pub mod Ranges
