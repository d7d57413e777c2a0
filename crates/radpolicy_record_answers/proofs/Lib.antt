pub mod Answering
pub mod Fitting
pub mod Replying
pub mod RequestRuns
pub mod RequestStarts
pub mod SameLists
