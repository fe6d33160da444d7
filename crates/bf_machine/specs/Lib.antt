pub mod InOrder
pub mod Movement
pub mod RunOver
pub mod Runnable
pub mod interleaving
