pub mod Redactions
