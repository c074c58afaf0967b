pub mod Bytes
pub mod Commands
pub mod Desk
pub mod Faults
pub mod Kinds
pub mod Laws
pub mod Readings
pub mod Sheets
