pub mod Packing
pub mod KeptRuns
pub mod Values
pub mod Beginning
