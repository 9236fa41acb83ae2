pub mod Joins
pub mod Partway
pub mod Flags
pub mod Acted
pub mod Hits
