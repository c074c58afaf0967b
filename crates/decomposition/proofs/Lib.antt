pub mod HeldRows
pub mod Limits
pub mod Lowers
pub mod Reducing
pub mod Settling
pub mod Whole
