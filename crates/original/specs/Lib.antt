-- zini.rs of ms-toollib, function by function, as functions on values.
pub mod Cells
pub mod Play
pub mod Rounds
pub mod Entries
pub mod Equal
