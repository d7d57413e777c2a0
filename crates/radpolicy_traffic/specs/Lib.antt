pub mod Lines
pub mod Growth
pub mod internal
