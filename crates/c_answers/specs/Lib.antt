-- What the C names promise.
pub mod Names
