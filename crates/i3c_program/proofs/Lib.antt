pub mod Coming
mod Leaving
mod Newest
pub mod Parting
pub mod Playing
pub mod Said
pub mod Written
