mod Alone
mod Beginning
mod Copying
mod Counted
mod Exchanging
mod Gathered
mod Lawful
mod Made
mod Numbering
mod Parting
mod Placing
mod Planning
mod Prepared
mod Running
pub mod Begun
