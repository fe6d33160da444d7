pub mod Positions
pub mod Words
pub mod Tracker
pub mod Steps
pub mod Seats
pub mod Answers
pub mod Closing
pub mod AsTracker
