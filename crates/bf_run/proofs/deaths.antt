-- What transcripts tell of groups that die.
pub mod Few
pub mod Lists
pub mod Numbers
pub mod Over
pub mod Replies
pub mod Rivals
pub mod Rule
pub mod Told
