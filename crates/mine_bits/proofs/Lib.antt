-- What a bit that is set does to the others.
pub mod Bits
