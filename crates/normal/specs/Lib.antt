pub mod Answers
pub mod Delivering
