pub mod Marks
pub mod Numbers
pub mod Paths
pub mod Portions
pub mod Runs
pub mod Sessions
pub mod Shares
