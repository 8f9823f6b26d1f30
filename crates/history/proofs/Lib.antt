mod Single
pub mod Promises
mod Turns
