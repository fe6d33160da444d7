pub mod FixedValue
pub mod Listing
pub mod Within
