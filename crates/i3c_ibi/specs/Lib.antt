pub mod Driving
pub mod Policies
pub mod Serving
pub mod Wire
