-- Two calls by one reader.
pub mod TwoCalls
