pub mod Apart
pub mod Items
pub mod Maps
pub mod Names
pub mod Order
pub mod Parts
pub mod Ties
