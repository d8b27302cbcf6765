pub mod Cut
pub mod Around
pub mod Trees
pub mod Emit
pub mod Flat
pub mod Prefix
