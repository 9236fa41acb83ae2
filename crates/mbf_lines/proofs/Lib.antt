-- Files as lines and lines as files: the checks by their tests, what is put, what decides, and there and back again.
pub mod Verdict
pub mod Places
pub mod Outputs
pub mod Firsts
pub mod Boards
pub mod Cuts
pub mod Back
pub mod Starts
