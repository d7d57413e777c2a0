pub mod Firsts
pub mod Runs
