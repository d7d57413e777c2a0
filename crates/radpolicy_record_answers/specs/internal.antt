pub mod Fitting
pub mod Over
