-- A machine whose sessions take turns: what is seen of it, what it keeps, and what its events make of it.
pub mod Groups
pub mod Machines
pub mod Kept
pub mod Events
pub mod Journals
pub mod Examples
pub mod Answering
pub mod Seen
pub mod Calls
pub mod Serving
