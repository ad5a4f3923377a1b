pub mod Entries
pub mod Majority
pub mod Lead
pub mod Order
