pub mod Decryption
pub mod Steps
