pub mod Turns
pub mod Constants
pub mod Laws
pub mod Shown
