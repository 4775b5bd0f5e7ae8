pub mod EscapeLaws
pub mod Appended
pub mod Wires
