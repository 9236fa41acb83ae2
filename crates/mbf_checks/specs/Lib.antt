-- What checking a file promises: the verdict, and the bits of its mines.
pub mod Marks
