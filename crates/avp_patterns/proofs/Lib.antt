mod Expansions
mod Languages
mod Readings
pub mod Refusals
mod Searches
