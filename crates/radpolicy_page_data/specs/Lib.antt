pub mod Differences
pub mod Embedding
pub mod Packets
pub mod Pages
pub mod Positions
pub mod Splices
pub mod internal
