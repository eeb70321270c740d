pub mod BoundLaws
pub mod ImplicationLaws
