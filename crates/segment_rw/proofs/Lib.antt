pub mod Writer
pub mod Unique
