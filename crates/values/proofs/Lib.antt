pub mod Meanings
pub mod Majorities
