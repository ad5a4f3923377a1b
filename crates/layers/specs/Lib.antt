pub mod King
pub mod Layers
pub mod Views
pub mod Agreement
pub mod Hearing
