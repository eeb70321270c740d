pub mod PassLaws
pub mod SideLaws
pub mod TokenLaws
