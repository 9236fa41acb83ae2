-- What steps and rounds promise of the work area and the move list.
pub mod Promises
