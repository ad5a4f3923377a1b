pub mod Same
pub mod Tallies
pub mod Masks
