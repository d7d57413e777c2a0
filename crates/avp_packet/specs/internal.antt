pub mod Filling
pub mod Holding
pub mod Ranges
pub mod Signings
pub mod Views
