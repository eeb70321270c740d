pub mod Answers
pub mod Asking
pub mod Exploring
