pub mod Chunks
pub mod Stores
pub mod Rows
