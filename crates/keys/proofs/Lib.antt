pub mod Order
pub mod Spelt
pub mod Place
pub mod Sorting
pub mod Ranks
pub mod Bits
pub mod Unique
