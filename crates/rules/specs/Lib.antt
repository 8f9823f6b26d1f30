pub mod Making
pub mod Orders
