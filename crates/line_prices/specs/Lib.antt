-- The board reader: board lines in, prices out.
pub mod Blocks
pub mod Bytes
pub mod Answers
pub mod Sessions
pub mod WholeCase
