pub mod Priced
pub mod Raising
pub mod Risen
