pub mod Loans
pub mod Moments
pub mod Places
pub mod Replays
pub mod TapeSteps
pub mod Tearing
