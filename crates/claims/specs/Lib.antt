pub mod Facesteps
pub mod Printing
