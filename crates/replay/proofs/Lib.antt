pub mod Cells
pub mod Chording
pub mod Counting
pub mod Clicking
pub mod Making
pub mod Endings
pub mod Words
pub mod Running
