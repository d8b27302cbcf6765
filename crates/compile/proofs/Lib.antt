pub mod Stacks
pub mod Writing
pub mod Turning
pub mod Adding
pub mod Leads
