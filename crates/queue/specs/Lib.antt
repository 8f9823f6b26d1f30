pub mod Contents
pub mod Order
pub mod Sifting
