pub mod Clash
pub mod Demand3
pub mod Same
