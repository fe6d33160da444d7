-- What footprints tell of statements, and of groups that are open while others commit.
pub mod Alike
pub mod Beside
pub mod Binding
pub mod Elements
pub mod Granting
pub mod Groups
pub mod Isolation
pub mod Keeping
pub mod Placing
pub mod Reading
pub mod Seeing
pub mod Writing
