pub mod BytesOutside
pub mod BytesWritten
pub mod BytesWhole
pub mod BytesRead
pub mod BytesRoundTrip
pub mod BytesOrder
pub mod Unique
