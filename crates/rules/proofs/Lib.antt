pub mod Parts
pub mod Binding
pub mod Moving
pub mod Turning
pub mod Instances
