pub mod Meeting
pub mod Claims
