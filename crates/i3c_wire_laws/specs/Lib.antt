pub mod Wires
pub mod Fitting
pub mod Laws
pub mod Numbers
pub mod Answering
