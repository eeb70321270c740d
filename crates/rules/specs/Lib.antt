pub mod Standing
pub mod Matching
