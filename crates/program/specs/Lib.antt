pub mod Table
pub mod Tree
pub mod Check
pub mod Sorts
pub mod Scope
pub mod Conditions
pub mod Spatial
