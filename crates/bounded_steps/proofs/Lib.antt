pub mod BelowLaws
