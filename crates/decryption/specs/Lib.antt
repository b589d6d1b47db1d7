pub mod Message
pub mod Ranks
pub mod Restored
