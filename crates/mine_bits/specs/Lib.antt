-- Mines as bits: a bit a place, eight to a byte, high bit first.
pub mod Bits
