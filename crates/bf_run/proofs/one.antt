pub mod Fronts
pub mod Marks
pub mod Grammar
pub mod Reading
pub mod Status
