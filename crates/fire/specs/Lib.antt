pub mod Fires
