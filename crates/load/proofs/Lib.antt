pub mod Shown
pub mod State
pub mod Turns
