pub mod Transfers
pub mod Wire
pub mod Getting
