pub mod Finding
pub mod Index
