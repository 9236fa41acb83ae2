-- What the functions on single numbers of the lent runs promise.
pub mod Numbers
pub mod Stages
pub mod Squares
