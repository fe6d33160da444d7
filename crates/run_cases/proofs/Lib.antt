-- What the program's proofs cite.
pub mod Shelves
