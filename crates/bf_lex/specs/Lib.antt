pub mod Bytes
pub mod Faults
pub mod Lexemes
pub mod Lexing
pub mod Reading
pub mod Words
