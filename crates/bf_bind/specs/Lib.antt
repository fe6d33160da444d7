pub mod Actions
pub mod ArmTables
pub mod Parts
pub mod Scopes
