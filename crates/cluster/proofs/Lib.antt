pub mod Carrying
pub mod Stepping
pub mod Wrote
pub mod Accepting
pub mod Masks
pub mod Delivery
pub mod Choosing
