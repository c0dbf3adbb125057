pub mod Images
pub mod Lines
pub mod Unique
