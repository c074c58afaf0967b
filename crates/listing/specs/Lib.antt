pub mod Laws
pub mod Lines
pub mod Listings
pub mod Shown
pub mod Steps
pub mod Text
