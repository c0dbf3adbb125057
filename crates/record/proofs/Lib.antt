pub mod Record
pub mod Unique
