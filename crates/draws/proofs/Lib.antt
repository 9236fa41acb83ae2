-- Words one after another.
pub mod Words
