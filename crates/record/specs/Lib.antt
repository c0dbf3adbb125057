pub mod Record
pub mod Promised
