pub mod Turns
pub mod Classes
pub mod Viable
pub mod Shown
