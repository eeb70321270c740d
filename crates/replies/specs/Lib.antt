pub mod Replying
pub mod Asking
pub mod Ending
