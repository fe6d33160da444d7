-- What is still to come into the tables that a migration makes.
pub mod Due
pub mod Found
pub mod Owning
pub mod Parts
