pub mod Cells
pub mod Network
