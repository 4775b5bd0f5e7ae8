pub mod Commands
pub mod Options
pub mod Parsed
pub mod Table
pub mod Tasks
pub mod Words
