pub mod Stripes
pub mod Answers
pub mod Seats
pub mod Units
pub mod Holding
pub mod Migrations
pub mod Ordered
pub mod Works
