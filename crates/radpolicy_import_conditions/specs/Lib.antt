pub mod Capturing
pub mod Conditions
pub mod Opened
pub mod RightWords
pub mod Switches
pub mod internal
