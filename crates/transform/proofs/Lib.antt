pub mod Passing
pub mod Plains
pub mod Written
pub mod GuardedRows
