-- What the passes that set the premiums of any position promise.
pub mod Passes
