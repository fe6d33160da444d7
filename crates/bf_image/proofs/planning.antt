-- The plan of a migration against its definitions.
pub mod Bound
pub mod Driven
pub mod Few
pub mod Indexes
pub mod Numbered
pub mod Places
pub mod Planned
pub mod Sourced
pub mod Units
pub mod Within
