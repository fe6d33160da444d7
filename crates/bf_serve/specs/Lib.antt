pub mod Come
pub mod Finishing
pub mod Requests
pub mod Seats
pub mod Sections
pub mod Steps
