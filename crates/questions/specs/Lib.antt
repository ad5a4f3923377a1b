pub mod Numbers
pub mod Refusals
pub mod Questions
pub mod Lengths
