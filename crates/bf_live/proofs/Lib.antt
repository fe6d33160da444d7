pub mod Aside
mod Committed
mod Created
mod Drafts
pub mod Exchanged
mod Heaps
mod Held
mod Paired
pub mod Putting
mod Swapped
mod Written
pub mod keeps
pub mod locking
pub mod querying
pub mod statements
