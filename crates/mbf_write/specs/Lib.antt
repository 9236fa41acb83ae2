-- What writing an MBF file promises (RULES 13).
pub mod Mines
pub mod Answers
