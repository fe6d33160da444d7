-- The database that is seen, and statements and commits on it.
pub mod Committing
pub mod Opening
pub mod Placing
pub mod Preparing
pub mod Serving
pub mod Stepping
pub mod Telling
pub mod Viewing
