pub mod Bits
pub mod Shown
