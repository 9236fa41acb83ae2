-- The checks of a file by their tests, and its mines marked one after the other.
pub mod Verdict
pub mod Marking
