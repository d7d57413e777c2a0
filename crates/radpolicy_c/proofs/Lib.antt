pub mod Crosses
pub mod DistinctNames
pub mod HeldStoreValues
pub mod HeldValues
pub mod LooseValues
pub mod Opened
pub mod Records
pub mod Told
