-- The rows that a granule has: the one row that a driver's row meets, the arms of a unit one by one, and the rows with a value.
pub mod Behind
pub mod Blocks
pub mod DriverRows
pub mod FoundArms
pub mod FrozenValues
pub mod MetRows
pub mod OldTables
pub mod Partners
pub mod UnitParts
pub mod UnitRows
pub mod UnitTables
pub mod ValueParts
pub mod ValueRows
