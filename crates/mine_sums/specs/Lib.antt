-- The mines of columns of three, and what is carried of them along a row.
pub mod Columns
pub mod Carried
