pub mod Places
pub mod Cells
pub mod Rotations
pub mod Held
pub mod Quarter
