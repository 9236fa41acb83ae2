-- Records and words are equal, and what a copy leaves.
pub mod Copies
pub mod Words
