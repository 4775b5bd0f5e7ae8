pub mod Gathered
mod Expected
mod Outlasting
pub mod ScriptRuns
pub mod ScriptRead
mod Reaching
pub mod CheckRuns
mod Reasoned
pub mod WatchRuns
pub mod ViewRuns
