pub mod Ranked
pub mod Adding
pub mod Leaders
pub mod Growth
pub mod Fronts
pub mod Weights
pub mod Heads
pub mod Turns
pub mod Runs
pub mod Walks
pub mod Limits
pub mod Corrections
mod Six
