-- Move records, and the words that they stand for.
pub mod Records
