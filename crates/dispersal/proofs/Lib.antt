pub mod Sound
pub mod Moving
