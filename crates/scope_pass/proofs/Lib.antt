pub mod Misread
pub mod Notes
