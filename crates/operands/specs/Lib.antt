pub mod Formed
pub mod Found
