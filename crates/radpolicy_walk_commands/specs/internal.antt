pub mod EditedLines
pub mod Following
