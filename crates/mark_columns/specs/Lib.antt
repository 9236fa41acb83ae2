-- Columns marked.
pub mod Columns
