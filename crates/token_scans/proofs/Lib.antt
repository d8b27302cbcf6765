pub mod Modes
pub mod Codes
pub mod Hits
pub mod Counts
pub mod Cuts
pub mod Shown
