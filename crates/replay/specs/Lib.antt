-- What a replay promises of the work area.
pub mod Clicks
pub mod Replays
