pub mod Judgement
pub mod Kept
pub mod LockNames
pub mod Locks
pub mod Modes
pub mod Owners
pub mod Table
pub mod Waits
