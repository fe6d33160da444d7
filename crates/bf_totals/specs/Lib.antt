pub mod RunningTotals
pub mod Sums
