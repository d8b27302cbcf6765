pub mod Fields
pub mod Emit
