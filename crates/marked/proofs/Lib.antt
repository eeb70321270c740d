pub mod Replying
pub mod Steady
pub mod Sizes
pub mod Reaching
pub mod Marked
