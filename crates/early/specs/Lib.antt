-- What a walk that stops early promises: of one cell, and as a whole.
pub mod Looks
pub mod Walks
