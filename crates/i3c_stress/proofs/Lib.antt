mod Counted
mod Reported
