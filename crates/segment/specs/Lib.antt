pub mod Segment
pub mod Cut
pub mod Chain
