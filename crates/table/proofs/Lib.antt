pub mod Opening
pub mod Tables
mod Queues
pub mod Settling
pub mod Finding
