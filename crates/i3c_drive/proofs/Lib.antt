pub mod Inputs
pub mod Served
pub mod Runs
pub mod Driving
pub mod Names
