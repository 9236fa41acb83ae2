pub mod Takes
pub mod Onward
pub mod Ending
pub mod Quiet
pub mod Lows
pub mod Clicks
pub mod Columns
