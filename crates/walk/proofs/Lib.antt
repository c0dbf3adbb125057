pub mod Judging
pub mod Walk
pub mod Headers
pub mod WalkFront
pub mod Records
pub mod Unique
