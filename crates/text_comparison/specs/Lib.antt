pub mod Comparisons
pub mod Lines
pub mod Parts
pub mod internal
