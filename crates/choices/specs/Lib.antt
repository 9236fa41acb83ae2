-- What the choosing of a cell promises.
pub mod Tests
pub mod Picks
pub mod Tops
