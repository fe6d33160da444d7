-- Changes of the schema, and flips among them.
pub mod Changing
pub mod Flipping
pub mod Keeping
