pub mod Laws
pub mod Erasing
pub mod Folding
