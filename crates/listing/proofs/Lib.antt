pub mod Hexadecimal
pub mod Joining
pub mod Limits
pub mod Opening
pub mod Sizes
pub mod Tables
pub mod Vectors
pub mod Whole
