pub mod Keeping
pub mod Recovery
pub mod Depend
pub mod Promised
pub mod ByHand
