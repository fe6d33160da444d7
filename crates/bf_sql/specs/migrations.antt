-- MIGRATE: what stands in its way, the new tables that it makes, and how their rows may move one granule at a time.
pub mod Extents
pub mod Granules
pub mod Images
pub mod Lazy
pub mod MigrationObjections
pub mod Need
pub mod Placed
pub mod Plans
pub mod Targets
pub mod Within
