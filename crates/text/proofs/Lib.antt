pub mod DecimalDigits
pub mod Texts
pub mod Unique
