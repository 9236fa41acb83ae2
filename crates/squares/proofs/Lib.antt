-- Going over a square.
pub mod Cells
pub mod Going
