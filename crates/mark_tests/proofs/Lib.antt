pub mod Held
pub mod Borders
pub mod Sharing
