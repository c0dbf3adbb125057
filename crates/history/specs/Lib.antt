pub mod History
pub mod Recorded
pub mod Demand
pub mod Corollaries
pub mod Relocation
