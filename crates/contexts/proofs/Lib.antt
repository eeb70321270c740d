pub mod ContextLaws
pub mod AfterLaws
pub mod MemberLaws
pub mod MoveLaws
pub mod LeftLaws
pub mod ClashLaws
pub mod TakeLaws
pub mod ClosingLaws
