pub mod TreeRows
pub mod Prepares
