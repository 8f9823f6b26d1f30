pub mod FirstRefusal
pub mod Stepping
pub mod Limits
pub mod Layouts
pub mod Readings
pub mod Puts
pub mod Written
