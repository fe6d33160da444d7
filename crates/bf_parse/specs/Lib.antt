pub mod Faults
pub mod MigrationFollow
pub mod Migrations
pub mod Pieces
pub mod ScriptParts
pub mod Scripts
pub mod StatementFollow
pub mod Statements
