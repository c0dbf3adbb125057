pub mod LittleEndian
pub mod Promised
