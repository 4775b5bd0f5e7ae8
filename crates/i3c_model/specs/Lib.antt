pub mod Views
pub mod Meaning
pub mod Storing
pub mod Choosing
