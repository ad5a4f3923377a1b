pub mod Levels
pub mod Entries
