-- MBF files: what passes the checks, the grid of the listed mines, what is written, the order of the mines, reading after writing, what the strict calls accept.
pub mod Lists
pub mod Accepted
pub mod Listed
pub mod Written
pub mod Order
pub mod Round
pub mod StrictFiles
