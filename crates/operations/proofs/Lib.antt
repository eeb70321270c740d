pub mod AnswerLaws
pub mod ResultLaws
