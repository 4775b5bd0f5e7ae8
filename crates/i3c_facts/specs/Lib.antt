pub mod Forms
pub mod Reading
pub mod Hearing
pub mod Holding
pub mod Printing
pub mod Laws
pub mod MarkFaults
