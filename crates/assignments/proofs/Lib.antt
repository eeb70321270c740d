pub mod Entailing
pub mod Least
pub mod Ordering
