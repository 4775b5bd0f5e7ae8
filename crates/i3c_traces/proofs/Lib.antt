pub mod AsciiLaws
pub mod TraceOut
pub mod LintWritten
pub mod Reasoned
