-- Statements on what a transaction sees.
pub mod Bare
pub mod Committing
pub mod Creating
pub mod InCatalog
pub mod Named
pub mod OnTables
pub mod Outcomes
pub mod Seeing
pub mod Steps
