pub mod Tokens
pub mod Words
pub mod Grammar
pub mod Reading
pub mod Scanning
pub mod Parsing
pub mod Answers
pub mod Wholes
