pub mod Append
pub mod Errors
pub mod Format
pub mod Opening
pub mod Storing
