-- What reading an input comes to.
pub mod Reads
pub mod Beginnings
