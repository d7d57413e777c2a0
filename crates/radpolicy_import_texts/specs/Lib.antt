pub mod Concealing
pub mod SecretNames
pub mod Words
