pub mod Trees
pub mod Modes
pub mod Around
pub mod Names
pub mod Meanings
pub mod Goods
pub mod Shown
