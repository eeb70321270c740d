pub mod Equality
pub mod Boundaries
pub mod Foralls
pub mod Contexts
