-- Whether a granule gives a row of a target.
pub mod DriverRows
pub mod FrozenRows
pub mod ValueRows
