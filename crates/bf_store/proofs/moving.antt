-- Granules move, and nobody sees it.
pub mod Ahead
pub mod Anchoring
pub mod Completing
pub mod Gathered
pub mod Left
pub mod Moves
pub mod Moving
pub mod Needing
pub mod Opened
pub mod Ordered
pub mod Passing
pub mod Put
pub mod Putting
pub mod Stored
pub mod Sweeping
pub mod Targets
pub mod Unordered
