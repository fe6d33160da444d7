pub mod Pools
pub mod Marks
pub mod Changes
