pub mod GateLaws
pub mod ReplyLaws
pub mod Saying
