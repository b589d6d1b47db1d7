pub mod Refusals
pub mod Moduli
pub mod PlainRing
