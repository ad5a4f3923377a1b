pub mod Choices
pub mod Rules
pub mod Picks
pub mod Sensors
pub mod Middle
