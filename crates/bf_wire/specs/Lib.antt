pub mod Apart
pub mod Spellings
pub mod Taking
