pub mod Branches
pub mod Guards
pub mod Rewriting
