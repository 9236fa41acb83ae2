-- The refusals read back from their numbers.
pub mod ReadBack
