pub mod Wheel
pub mod Counts
pub mod Levels
pub mod Steps
pub mod Thrusts
pub mod LevelLaws
pub mod FloatOrder
