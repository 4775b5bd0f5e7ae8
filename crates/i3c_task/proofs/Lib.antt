pub mod LegacyLaws
pub mod Tables
pub mod Verbs
