pub mod TestLaws
pub mod ClaimLaws
pub mod RepeatLaws
