pub mod Names
pub mod Numbering
pub mod Reads
pub mod Accepted
