pub mod View
pub mod Chain
pub mod Fit
pub mod Shape
pub mod New
pub mod Promised
