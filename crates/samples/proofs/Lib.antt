pub mod Sample
pub mod Unique
