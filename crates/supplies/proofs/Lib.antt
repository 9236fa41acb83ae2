pub mod KeyTurns
pub mod Standing
