pub mod Flat
pub mod Lines
pub mod Found
pub mod Putting
