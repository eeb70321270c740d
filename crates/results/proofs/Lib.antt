pub mod ResultLaws
pub mod SideLaws
pub mod IndexLaws
