pub mod Rows
pub mod RoundTrip
pub mod Reading
pub mod Refusing
