-- What two random calls by one reader come to.
pub mod Readings
