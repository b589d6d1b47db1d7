pub mod Rows
pub mod Tables
pub mod Turns
pub mod Joins
