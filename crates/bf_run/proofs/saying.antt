pub mod Gives
pub mod Migrating
pub mod Nodes
pub mod Plain
