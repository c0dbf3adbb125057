pub mod Row
pub mod Unique
