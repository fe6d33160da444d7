pub mod Machines
pub mod Migrates
pub mod Plans
pub mod Scripts
pub mod Engines
