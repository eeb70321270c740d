pub mod NumberLaws
pub mod PlaceLaws
pub mod FieldLaws
pub mod BodyLaws
