pub mod Words
pub mod MoveCalls
pub mod Stores
pub mod OneAnswer
