pub mod Lessers
pub mod Changes
