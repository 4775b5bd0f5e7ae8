pub mod Reading
pub mod Outcomes
pub mod Lines
pub mod Faults
pub mod Watching
