pub mod Changes
pub mod Eights
pub mod Chains
pub mod Turning
