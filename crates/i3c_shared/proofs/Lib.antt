mod Compared
mod Told
mod ToldReplies
mod Taken
mod Fitting
mod Events
mod Meeting
mod Replies
pub mod Covering
mod Growing
mod Missing
mod Started
mod Balanced
mod Steady
mod Booked
mod Unmet
