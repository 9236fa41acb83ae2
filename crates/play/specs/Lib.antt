-- What the moves promise of the work area.
pub mod Walks
pub mod Promises
