pub mod Bytes
pub mod Kinds
pub mod Flaws
pub mod Reads
pub mod Written
pub mod Tiles
