pub mod Held
pub mod Members
pub mod Walk
