-- docs/RULES.md as definitions: what a reader of the contracts has to believe.
pub mod Lists
pub mod Grid
pub mod Openings
pub mod Early
pub mod Position
pub mod Moves
pub mod Draws
pub mod Chances
pub mod Keys
pub mod Rounds
pub mod Demands
pub mod Area
pub mod Calls
pub mod Boards
