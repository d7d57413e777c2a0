pub mod ChangingLines
pub mod Differences
