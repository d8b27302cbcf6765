pub mod Computed
pub mod Fresh
pub mod Runs
pub mod Fading
pub mod Lags
pub mod Clashes
