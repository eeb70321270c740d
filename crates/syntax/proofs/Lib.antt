pub mod WordLaws
pub mod DepthLaws
pub mod AnswerLaws
pub mod Producing
