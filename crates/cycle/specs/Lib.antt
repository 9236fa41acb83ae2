-- What visiting the neighbours in turn does.
pub mod Visits
