pub mod ByKind
pub mod Lowest
