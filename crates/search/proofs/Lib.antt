pub mod CoverLaws
pub mod TurnLaws
pub mod SplitLaws
pub mod SearchLaws
pub mod FinishLaws
