pub mod LedgerLaws
pub mod PointLaws
pub mod CheckLaws
pub mod NotingLaws
