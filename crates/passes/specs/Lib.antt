pub mod Rewriting
pub mod Stepping
