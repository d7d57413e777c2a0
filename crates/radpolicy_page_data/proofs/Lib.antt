pub mod Markings
pub mod PageParts
pub mod Splicing
pub mod Writings
