-- What the proofs of several functions use.
pub mod Turns
pub mod Left
