pub mod Values
pub mod Fields
pub mod Objects
pub mod Laws
