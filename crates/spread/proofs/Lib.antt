pub mod Visits
pub mod Turns
pub mod Ends
pub mod Acts
pub mod Reveals
