pub mod Drawings
pub mod Endings
pub mod Tellings
pub mod Wavings
