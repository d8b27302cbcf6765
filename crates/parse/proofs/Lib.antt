pub mod Tokens
pub mod Fronts
pub mod Held
pub mod Follows
pub mod Reading
pub mod Passing
pub mod Turns
pub mod Windows
