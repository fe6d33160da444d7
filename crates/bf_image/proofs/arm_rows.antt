-- Rows that an arm makes, over references to rows.
pub mod Made
