pub mod PlaceLaws
pub mod StateLaws
pub mod WeighLaws
pub mod MarkLaws
