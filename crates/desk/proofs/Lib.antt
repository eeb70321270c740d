pub mod ClaimLaws
pub mod PassLaws
pub mod Verdicts
