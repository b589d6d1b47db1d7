pub mod Pairs
pub mod Numbers
pub mod Coefficients
pub mod Halving
pub mod Whole
