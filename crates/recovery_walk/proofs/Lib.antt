pub mod Images
pub mod Rows
pub mod RowsIds
pub mod Headers
mod Bounds
mod ImagesTurn
mod RowsTurn
pub mod ImagesBehind
pub mod Whole
pub mod Scan
pub mod Unique
