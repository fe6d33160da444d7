pub mod Anchoring
pub mod Crosses
pub mod Rest
pub mod Seated
pub mod threads
