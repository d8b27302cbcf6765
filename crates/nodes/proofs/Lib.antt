pub mod Items
pub mod Body
