pub mod Alone
pub mod Digits
pub mod Views
pub mod Below
pub mod Found
