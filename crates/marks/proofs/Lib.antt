pub mod Reading
pub mod Symbols
