pub mod Limited
pub mod Obligations
