mod Adding
mod Between
mod Closed
mod Covering
mod Keeping
mod Leaving
mod Looking
mod Waiting
