pub mod Marks
pub mod Owners
