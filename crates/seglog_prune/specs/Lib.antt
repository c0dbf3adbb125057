pub mod Decide
pub mod Drop
pub mod Cut
pub mod Prune
pub mod Steps
pub mod Promised
