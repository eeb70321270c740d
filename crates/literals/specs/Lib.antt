pub mod Collecting
pub mod Numbers
