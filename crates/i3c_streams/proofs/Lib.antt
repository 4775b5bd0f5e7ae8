pub mod Written
pub mod Feeds
pub mod BytesRead
pub mod LinesRead
pub mod WrittenOn
