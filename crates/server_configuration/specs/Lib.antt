pub mod Contents
pub mod Files
pub mod Lookups
pub mod Names
pub mod Places
pub mod References
pub mod internal
