-- What bounds the place of a reader, and that there is only one answer.
pub mod OneAnswer
pub mod Within
