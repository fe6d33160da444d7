-- Whether an arm makes a row, by tests of the rows of its tables.
pub mod Any
