pub mod Firsts
pub mod Frames
pub mod Laws
pub mod Parts
pub mod Taps
pub mod Texts
pub mod Traces
