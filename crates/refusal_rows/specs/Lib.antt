pub mod Numbers
pub mod Roots
pub mod Shows
