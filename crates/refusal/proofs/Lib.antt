pub mod Refusals
pub mod Unique
