pub mod Order
pub mod Bits
pub mod Promised
pub mod Place
pub mod Sorting
pub mod Ranks
