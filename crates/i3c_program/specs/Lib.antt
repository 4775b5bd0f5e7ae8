pub mod Answers
pub mod Choosing
pub mod Laws
pub mod Meeting
pub mod Scenarios
pub mod Scripts
pub mod Sessions
pub mod Words
