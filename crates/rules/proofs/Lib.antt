pub mod Packing
pub mod Above
