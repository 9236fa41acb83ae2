-- What one board line is priced at.
pub mod Taken
pub mod Prices
