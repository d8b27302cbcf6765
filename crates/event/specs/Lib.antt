pub mod Event
pub mod Step
pub mod Calls
