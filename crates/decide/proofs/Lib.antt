pub mod Picks
pub mod Joined
pub mod Below
pub mod Options
pub mod Zeros
