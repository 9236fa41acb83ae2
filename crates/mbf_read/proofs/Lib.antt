-- The right values put cell after cell and row after row, and what reading a file comes to.
pub mod Filling
pub mod Rows
pub mod Calls
