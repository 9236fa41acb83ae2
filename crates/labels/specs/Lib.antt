-- A cell's labels, and what labelling from a cell on does.
pub mod Labels
pub mod Spread
