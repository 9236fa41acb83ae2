-- What the refusals of the code stand for.
pub mod Names
