pub mod Stacks
pub mod Takes
