-- The granules of a migration, and that their parts make its images.
pub mod Anchors
pub mod Made
pub mod Parts
pub mod Swept
pub mod Targets
