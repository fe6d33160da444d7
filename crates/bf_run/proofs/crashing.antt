-- What a crash leaves of a machine beside its log.
pub mod Changing
pub mod Failing
pub mod Growing
pub mod Makes
pub mod Beside
