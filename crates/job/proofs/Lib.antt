pub mod Folds
pub mod Gathers
pub mod Mirrors
pub mod Places
pub mod Starts
