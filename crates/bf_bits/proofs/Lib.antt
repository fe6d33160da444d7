pub mod Counting
pub mod Places
pub mod Moves
pub mod Joining
pub mod Ends
pub mod Told
pub mod Gathering
pub mod AsTracker
