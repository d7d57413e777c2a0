pub mod Searches
pub mod Trace
pub mod Walk
pub mod internal
