pub mod DrawnOut
pub mod WavedOut
