pub mod Lones
pub mod Unchanged
pub mod Looked
pub mod Glances
pub mod Stops
