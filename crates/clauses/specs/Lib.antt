pub mod Lists
pub mod Normal
pub mod Shape
pub mod Words
