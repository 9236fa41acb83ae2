pub mod Kept
pub mod Figures
pub mod Boards
pub mod OneAnswer
pub mod Written
