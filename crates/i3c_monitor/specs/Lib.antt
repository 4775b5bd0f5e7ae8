pub mod Due
pub mod AddressStatuses
pub mod Lines
pub mod Lint
pub mod LintLines
pub mod Linting
pub mod Told
pub mod Trace
