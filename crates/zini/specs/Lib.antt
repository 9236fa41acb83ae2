-- What the lists and answers of the public calls are.
pub mod Written
