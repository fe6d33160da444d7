-- What bound statements reply and write, on the rows that a transaction sees.
pub mod AsWritten
pub mod Binding
pub mod Effects
pub mod Held
pub mod Inserting
pub mod Keeping
pub mod Keyed
pub mod Merging
pub mod OwnKeys
pub mod RowsAsEntries
pub mod Taken
