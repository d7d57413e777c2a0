pub mod Histories
pub mod Sessions
pub mod Settings
pub mod Showings
pub mod Steps
pub mod internal
