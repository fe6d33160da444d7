mod Alike
mod Bounded
mod Carried
mod Chosen
mod Coming
mod Driving
mod Each
pub mod Finding
pub mod Fixed
mod Fronts
mod Given
pub mod Granules
mod Grouped
pub mod Inserted
pub mod Keyed
mod Listed
mod Looked
mod Merging
pub mod Named
mod Needed
pub mod Numbered
mod Outside
pub mod Owners
pub mod Paired
pub mod Possible
mod Ranged
mod Rising
mod Sought
mod Steps
pub mod Told
mod Transposing
pub mod Unfilled
mod Units
