mod Calling
mod Ending
pub mod Marking
pub mod Matching
mod Numbering
mod Trying
mod Turning
