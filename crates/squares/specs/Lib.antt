-- What is left of a square.
pub mod Left
