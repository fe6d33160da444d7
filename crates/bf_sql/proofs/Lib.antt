mod Binding
mod Block
mod FilteredGroups
pub mod FixedKey
mod GroupedTotals
pub mod GroupedTotalsMoves
mod Grouping
mod InsertOrder
mod JoinedPairs
pub mod JoinedPairsMoves
mod JoinedRefusals
mod JoinedRows
mod KeyOrder
mod LeastAndGreatest
mod MayFail
mod MayFailMoves
mod OpenBlock
mod Refusals
pub mod Renaming
mod SecondMigration
mod SecondMigrationMoves
pub mod Spelling
mod SplitTable
pub mod SplitTableMoves
mod SumLimit
mod Sweeping
mod TaggedArms
mod TaggedArmsMoves
mod TwoDrivers
mod TwoSessions
mod TwoSets
mod UnitLimit
pub mod extents
