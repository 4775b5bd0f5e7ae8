mod Pairs
pub mod Late
mod Behind
mod Setting
mod Ran
pub mod Replied
pub mod Outcomes
