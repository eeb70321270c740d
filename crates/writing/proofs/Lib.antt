pub mod WriteLaws
pub mod NumberLaws
pub mod TextLaws
pub mod FormulaLaws
pub mod DeliverLaws
