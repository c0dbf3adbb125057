pub mod Bounds
pub mod Cut
pub mod Chain
pub mod Unique
