pub mod Shown
pub mod Footprint
pub mod Alike
pub mod Agree
