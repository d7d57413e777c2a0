pub mod Answers
pub mod Codes
pub mod Edits
pub mod Frames
pub mod Lines
pub mod Running
pub mod Settings
pub mod Texts
