pub mod Images
pub mod Rows
pub mod Scan
pub mod Headers
pub mod Promised
pub mod Whole
