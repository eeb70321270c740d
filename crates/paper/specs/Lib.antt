pub mod DeMorgan
pub mod Maps
