-- What the passes over the work area before any move, and after the last, promise.
pub mod Passes
pub mod Setting
