-- What single moves promise of the work area and the move list.
pub mod Promises
pub mod Walks
