pub mod Programs
pub mod Paper
pub mod Needed
pub mod Fading
pub mod Lags
