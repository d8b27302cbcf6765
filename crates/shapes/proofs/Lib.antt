pub mod Inside
pub mod ByKind
