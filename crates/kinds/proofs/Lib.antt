pub mod Clear
pub mod Fields
