pub mod Refusals
pub mod Promised
pub mod Words
