mod Widened
pub mod Leading
mod Starting
