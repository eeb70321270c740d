pub mod OrderLaws
pub mod StateLaws
pub mod LoopLaws
pub mod ExploreLaws
pub mod AskLaws
pub mod Agreeing
