pub mod Places
pub mod Exact
pub mod Numbers
