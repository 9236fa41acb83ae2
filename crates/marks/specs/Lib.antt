-- What the marking of columns promises.
pub mod Marks
