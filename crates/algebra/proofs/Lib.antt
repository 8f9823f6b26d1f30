pub mod Digits
pub mod Symbols
pub mod Marks
pub mod Checks
pub mod Rankings
pub mod Layers
