pub mod Clear
pub mod RefusalRows
pub mod Rows
