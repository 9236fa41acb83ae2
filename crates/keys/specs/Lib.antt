-- What a key of the code stands for.
pub mod Stands
