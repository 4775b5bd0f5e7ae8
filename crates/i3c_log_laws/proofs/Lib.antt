pub mod Behind
pub mod Serving
pub mod Parts
pub mod Tests
pub mod Steps
pub mod Runs
