pub mod Words
pub mod Hearing
pub mod Wire
