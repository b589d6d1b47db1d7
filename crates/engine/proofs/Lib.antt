pub mod Lookups
pub mod Rows
pub mod Numbers
pub mod Carrying
pub mod Layering
pub mod Scaling
pub mod Slots
pub mod Wholes
