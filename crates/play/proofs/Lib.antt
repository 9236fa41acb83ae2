pub mod Steps
pub mod Cells
pub mod Held
pub mod Changes
pub mod Reveals
pub mod Chords
pub mod Sweeps
pub mod Spans
