-- What stands in a run after a call, and replay over records and over words.
pub mod Runs
pub mod OneAnswer
pub mod Replays
