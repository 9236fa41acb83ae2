-- What the calls over runs of move records promise.
pub mod Promises
