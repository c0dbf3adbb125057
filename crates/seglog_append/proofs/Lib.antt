pub mod DecidingFree
pub mod Deciding
pub mod Appending
pub mod AppendingShape
pub mod Unique
