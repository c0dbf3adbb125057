pub mod ImageRows
pub mod Promised
pub mod Rows
pub mod Arrange
