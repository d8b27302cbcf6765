pub mod Each
pub mod Shown
pub mod ShownFaults
