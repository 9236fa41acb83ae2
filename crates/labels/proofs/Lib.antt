pub mod Edges
pub mod Changes
pub mod Frees
pub mod Borders
