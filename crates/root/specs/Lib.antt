pub mod Root
pub mod Whole
pub mod Only
pub mod Nearest
pub mod Patterns
pub mod Exists
