pub mod ByValues
pub mod Edits
pub mod Pages
pub mod Pairs
