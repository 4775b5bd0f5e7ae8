pub mod Declaring
pub mod Rows
pub mod Boards
