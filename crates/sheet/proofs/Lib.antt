pub mod Flaws
pub mod Hearing
pub mod Made
pub mod Opening
pub mod Spelling
pub mod Steps
pub mod Unique
pub mod Within
