pub mod Tables
pub mod Setup
pub mod Model
pub mod Turns
pub mod Calls
pub mod Consistency
pub mod Runs
pub mod Clusters
