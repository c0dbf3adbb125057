pub mod LittleEndian
pub mod Unique
