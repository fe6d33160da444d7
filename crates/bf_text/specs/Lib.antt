pub mod Numbers
pub mod Puts
pub mod Replies
pub mod Report
pub mod Told
