-- What the cells that a random step draws among are.
pub mod Candidates
