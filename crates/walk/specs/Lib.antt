pub mod Judging
pub mod Walk
pub mod Headers
pub mod Records
