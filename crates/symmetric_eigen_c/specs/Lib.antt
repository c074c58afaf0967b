pub mod Calls
pub mod Forms
pub mod Outcomes
pub mod Points
