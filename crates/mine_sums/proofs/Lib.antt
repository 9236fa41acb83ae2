-- The mines of a square by the sums of its columns, and along a row.
pub mod Columns
pub mod Along
pub mod Alike
