pub mod Desks
pub mod Gathering
pub mod Joining
pub mod LittleEndian
pub mod Runs
pub mod TableSteps
pub mod Whole
