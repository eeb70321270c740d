pub mod GrowLaws
pub mod EmitLaws
pub mod KeepLaws
