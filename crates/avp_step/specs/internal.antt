pub mod Frames
pub mod Held
pub mod Courses
pub mod Skips
