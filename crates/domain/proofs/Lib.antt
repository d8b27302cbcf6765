-- What the proofs of several functions use; Laws is for users too.
pub mod Walk
pub mod Laws
pub mod Fields
pub mod Shown
