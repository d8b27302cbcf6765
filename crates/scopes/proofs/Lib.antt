pub mod Places
pub mod Walks
pub mod Calls
