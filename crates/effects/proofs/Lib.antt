-- What the proofs of several functions use, and `Lit` and `Idle`, for those who call `signal` and `fire` in a run.
mod Stores
pub mod Refusals
pub mod Digit
pub mod Variables
pub mod Lit
pub mod Idle
