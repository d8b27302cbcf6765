pub mod Both
