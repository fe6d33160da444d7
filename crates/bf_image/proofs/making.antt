-- The rows that an arm makes, and that keys tell them apart.
pub mod ArmKeys
pub mod Arms
pub mod CanMake
pub mod Keys
pub mod PlacedArms
pub mod Unions
pub mod Unobjected
