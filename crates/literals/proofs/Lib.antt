pub mod CollectLaws
pub mod FaceLaws
pub mod MaskLaws
pub mod Ranking
pub mod RowLaws
