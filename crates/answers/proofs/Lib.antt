-- Promises kept, and that only one answer keeps each.
pub mod Promises
pub mod OneAnswer
