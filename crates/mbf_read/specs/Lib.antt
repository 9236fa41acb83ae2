-- A file's numbers: what the functions that put them promise.
pub mod Numbers
