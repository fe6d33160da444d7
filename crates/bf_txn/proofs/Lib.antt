pub mod Ahead
pub mod KeyWrites
pub mod Tables
pub mod Taking
