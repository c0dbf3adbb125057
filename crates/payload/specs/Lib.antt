pub mod Row
pub mod PayloadDelta
