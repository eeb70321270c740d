pub mod TransformLaws
pub mod ImageLaws
