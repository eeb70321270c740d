pub mod Places
pub mod States
pub mod Weighing
pub mod Marking
