pub mod Mines
pub mod Files
pub mod OneAnswer
