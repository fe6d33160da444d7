pub mod Chosen
pub mod Gathering
pub mod IndexRows
pub mod RangeRows
pub mod Restricting
