-- What the checks of the calls promise.
pub mod OneMore
