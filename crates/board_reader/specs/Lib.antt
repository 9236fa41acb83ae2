-- What the board reader's program keeps from turn to turn.
pub mod Turns
