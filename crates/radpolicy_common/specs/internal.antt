pub mod Elements
pub mod Middles
pub mod NextKept
pub mod PlainText
pub mod PolicyLines
pub mod SecretIds
