pub mod Codes
pub mod Commands
