-- The owner of a key, and the rows that a row can meet, by look-ups.
pub mod Found
pub mod Looked
pub mod Meets
pub mod Owned
pub mod Owner
