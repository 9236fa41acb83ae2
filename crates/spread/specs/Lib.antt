-- What is opened cell after cell, and what L on a safe cell comes to.
pub mod Spreads
