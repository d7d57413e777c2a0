pub mod Addresses
pub mod Clients
pub mod Faults
pub mod Lines
pub mod internal
