pub mod Commits
pub mod Loops
pub mod Putting
pub mod decoding
