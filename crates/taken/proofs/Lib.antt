pub mod Agree
pub mod Walk
