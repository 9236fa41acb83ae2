-- A board file as a board line, and a board line as a file: what the two programs print.
pub mod Conversions
