pub mod States
pub mod Tickets
pub mod Stripes
pub mod Keeping
pub mod AsTracker
