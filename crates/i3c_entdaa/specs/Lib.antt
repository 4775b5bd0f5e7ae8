pub mod Hearers
pub mod Rounds
pub mod Parts
pub mod Wire
