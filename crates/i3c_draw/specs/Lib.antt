pub mod Driving
pub mod Escaped
pub mod Laws
pub mod Pictures
pub mod Rows
pub mod Traces
