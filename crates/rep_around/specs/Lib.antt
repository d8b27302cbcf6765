pub mod Around
pub mod Outward
pub mod Meaning
