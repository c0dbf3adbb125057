pub mod Page
pub mod Promised
