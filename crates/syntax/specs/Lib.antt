pub mod Syntax
pub mod Producer
pub mod Depths
