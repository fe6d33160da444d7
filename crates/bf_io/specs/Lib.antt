pub mod Causes
pub mod SinkState
pub mod SourceState
pub mod Whole
