pub mod AskLaws
pub mod PrintLaws
