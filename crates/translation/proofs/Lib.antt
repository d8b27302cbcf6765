pub mod Answered
pub mod Exact
pub mod Parsed
pub mod Shown
pub mod ShownTables
pub mod ShownNames
pub mod ShownLimits
pub mod ShownReads
