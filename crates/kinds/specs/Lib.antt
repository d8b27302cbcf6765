pub mod Taken
pub mod Numbers
pub mod Reads
