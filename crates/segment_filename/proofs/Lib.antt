pub mod Words
pub mod Digits
pub mod Formatting
pub mod Parsing
pub mod RoundTrip
pub mod ParsingWritten
pub mod Unique
