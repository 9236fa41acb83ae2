pub mod Loaded
pub mod Settled
pub mod Begun
