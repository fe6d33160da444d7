-- The old tables of a migration leave the live tables with their rows, or come back.
pub mod After
pub mod Anchors
pub mod Back
pub mod Emptied
pub mod Named
pub mod Sources
pub mod Whole
