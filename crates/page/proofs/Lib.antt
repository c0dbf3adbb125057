pub mod Page
pub mod Unique
