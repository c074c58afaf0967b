pub mod Turns
pub mod Keepers
pub mod Makes
pub mod Sounds
