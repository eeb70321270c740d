pub mod FitLaws
pub mod Looking
