pub mod Answered
pub mod Crashes
pub mod Leaving
pub mod Reading
pub mod Reopening
pub mod States
