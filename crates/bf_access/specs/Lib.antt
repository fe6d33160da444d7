pub mod ByIndex
pub mod Ranges
