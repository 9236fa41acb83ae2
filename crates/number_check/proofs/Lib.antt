-- Why the checks of a grid's numbers hold.
pub mod Values
pub mod Rows
pub mod Verdict
