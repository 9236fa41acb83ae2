-- Boards in MBF files: the form, and what reading and writing come to.
pub mod Form
pub mod Calls
