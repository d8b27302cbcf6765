pub mod Shift
pub mod Met
