-- What a mark turns on.
pub mod Tests
