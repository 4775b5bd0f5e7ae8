pub mod Inputs
pub mod Serving
pub mod Answers
pub mod Steps
