pub mod Fitting
pub mod ReplyHeads
pub mod ScriptReading
pub mod Starting
