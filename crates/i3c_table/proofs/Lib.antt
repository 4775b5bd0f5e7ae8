pub mod AtRest
pub mod Ranking
pub mod Ordering
pub mod StoredLaws
pub mod Known
pub mod Open
pub mod Placed
pub mod Reset
pub mod Unkept
pub mod Homes
pub mod TakenOver
pub mod Moving
pub mod Same
mod Alike
pub mod RegisterByteLaws
