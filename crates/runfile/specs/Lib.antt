pub mod Faults
pub mod Numbers
pub mod Headers
pub mod Levels
pub mod Records
pub mod Bodies
