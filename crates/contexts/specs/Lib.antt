pub mod Contexts
pub mod Faces
pub mod Moves
