pub mod Names
pub mod Log
pub mod Recover
pub mod Deltas
pub mod Promised
