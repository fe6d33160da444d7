pub mod Codes
pub mod CondCodes
pub mod Examples
pub mod ExprCodes
pub mod Trees
pub mod Whole
