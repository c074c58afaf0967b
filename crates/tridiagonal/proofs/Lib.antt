mod Assembled
mod Columns
mod Dots
mod Entries
pub mod Law
mod Lent
mod Products
mod Reduced
mod Shapes
mod Steps
mod Whole
mod Writes
