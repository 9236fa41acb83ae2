-- The numbers of kinds and endings.
pub mod Numbers
