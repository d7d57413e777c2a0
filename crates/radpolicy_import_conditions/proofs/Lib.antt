pub mod Cases
pub mod KeptCaptures
pub mod Opening
pub mod Repeated
pub mod Truths
