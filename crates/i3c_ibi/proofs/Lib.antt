pub mod Scans
pub mod ReadingLaws
pub mod ServingLaws
