-- One check after others, what the checks of every call say, and that they say one thing only.
pub mod More
pub mod Verdict
pub mod OneAnswer
