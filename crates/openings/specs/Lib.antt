-- What labelling the openings promises.
pub mod Numbering
