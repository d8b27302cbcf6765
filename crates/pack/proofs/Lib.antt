pub mod Made
pub mod Grown
pub mod Looks
pub mod Sorts
pub mod Pass
pub mod Columns
