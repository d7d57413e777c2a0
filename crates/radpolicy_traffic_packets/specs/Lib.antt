pub mod Packets
pub mod internal
