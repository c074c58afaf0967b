mod Falls
mod Turned
mod Running
mod Limits
pub mod Agreement
mod Uppers
