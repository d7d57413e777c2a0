pub mod Matching
pub mod Patterns
pub mod internal
