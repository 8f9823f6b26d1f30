pub mod Schemes
pub mod Leaders
pub mod Growth
pub mod Heads
pub mod Corrections
