pub mod Traces
pub mod Linted
pub mod Symbols
pub mod Explained
