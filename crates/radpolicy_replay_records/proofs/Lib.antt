pub mod CountedAgain
pub mod Counting
pub mod Cutting
pub mod Progress
pub mod Telling
pub mod Writing
