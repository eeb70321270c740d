pub mod Formula
pub mod Operations
pub mod Bytes
pub mod Answers
