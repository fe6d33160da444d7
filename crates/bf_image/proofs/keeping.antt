-- What a migration reads: its sources, and for its plan the catalog.
pub mod Frozen
pub mod SameTables
pub mod Prepared
pub mod SamePlan
pub mod Sources
