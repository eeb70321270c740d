pub mod Items
pub mod Flattening
