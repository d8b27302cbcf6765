pub mod Places
pub mod Scope
pub mod Uses
