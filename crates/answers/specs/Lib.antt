-- What the answers of the public calls stand for.
pub mod Answers
