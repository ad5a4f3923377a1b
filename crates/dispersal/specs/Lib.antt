pub mod Turning
pub mod Closing
