pub mod Rows
pub mod Pairs
pub mod Steps
pub mod Slots
pub mod LayerNumbers
