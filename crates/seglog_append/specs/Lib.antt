pub mod Deciding
pub mod Appending
pub mod Promised
