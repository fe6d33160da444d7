pub mod Claims
pub mod Lists
pub mod Keeping
