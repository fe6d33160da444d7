pub mod Arms
pub mod Items
pub mod Limits
pub mod Names
pub mod Prepared
pub mod Targets
pub mod Units
