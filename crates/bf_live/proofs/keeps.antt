-- A statement leaves a database a database: each kind of statement.
pub mod Admitted
pub mod Changes
pub mod Items
pub mod New
pub mod Places
pub mod Rows
pub mod Statements
