-- What random steps, rounds and searches promise of the work area and the move list.
pub mod Promises
