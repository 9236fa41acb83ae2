-- What a call over a run leaves, by the flat call and the copy.
pub mod Keeping
pub mod StrictRecords
