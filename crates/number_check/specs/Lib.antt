-- What the checks of a grid's numbers promise, and the forms of a call.
pub mod Faults
pub mod Forms
