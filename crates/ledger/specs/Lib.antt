pub mod Ledger
pub mod Checks
pub mod Noting
