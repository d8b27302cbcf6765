pub mod Scan
pub mod Sought
