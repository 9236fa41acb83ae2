-- Stored move lists (RULES 9.4, 9.5).
pub mod MoveLine
pub mod Answers
