pub mod Closing
pub mod Fronts
pub mod Shown
