pub mod Commons
pub mod OneMore
