pub mod Words
pub mod Digits
pub mod Formatting
pub mod Parsing
pub mod Promised
