pub mod Reading
pub mod Standings
pub mod Wholes
