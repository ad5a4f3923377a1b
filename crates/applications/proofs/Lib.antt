pub mod WheelLaws
