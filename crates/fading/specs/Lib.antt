pub mod Fading
