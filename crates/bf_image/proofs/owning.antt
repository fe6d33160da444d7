-- Why an owner is found by look-ups.
pub mod Armed
pub mod Candidates
pub mod Found
pub mod Named
pub mod Parts
pub mod Stored
pub mod Targets
pub mod Valued
