-- What the waiting form does, cell after cell.
pub mod Waits
