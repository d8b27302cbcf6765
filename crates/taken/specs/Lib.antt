pub mod Taken
pub mod Agrees
