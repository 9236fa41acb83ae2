-- Hexadecimal: what a byte of a line is, and bytes of two digits.
pub mod Hex
pub mod Characters
