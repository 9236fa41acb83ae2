-- There is only one answer.
pub mod OneAnswer
