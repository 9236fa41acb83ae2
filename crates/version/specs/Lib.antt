-- The version of the library.
pub mod Version
