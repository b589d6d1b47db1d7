pub mod Decryption
