pub mod Changes
pub mod RowsAhead
