pub mod Differences
pub mod Improper
pub mod Walks
