pub mod Halves
pub mod Helping
pub mod OneLine
pub mod Pointing
