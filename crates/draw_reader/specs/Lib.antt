-- Where a reader stands after a draw.
pub mod Reader
