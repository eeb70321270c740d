pub mod Finding
pub mod Forming
