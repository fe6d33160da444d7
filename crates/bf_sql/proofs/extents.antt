-- How far values and totals can go.
pub mod Order
pub mod Rows
pub mod Sums
pub mod Totals
pub mod Within
pub mod Worked
