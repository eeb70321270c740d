pub mod Limits
pub mod Counting
pub mod Moving
pub mod Following
