pub mod Supplies
pub mod Takes
pub mod Courses
pub mod Searches
pub mod Finishes
pub mod Turns
