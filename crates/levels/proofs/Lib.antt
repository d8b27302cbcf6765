pub mod Table
pub mod Moves
pub mod Steps
pub mod Forms
pub mod Laws
pub mod Shown
