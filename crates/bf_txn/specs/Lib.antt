pub mod Formers
pub mod Writes
