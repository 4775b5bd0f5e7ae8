pub mod Ranks
pub mod Stored
pub mod Rows
pub mod Putting
pub mod Room
pub mod RegisterBytes
