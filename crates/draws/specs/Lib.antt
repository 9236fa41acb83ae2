-- What the mode and the answer of a draw stand for.
pub mod Answers
