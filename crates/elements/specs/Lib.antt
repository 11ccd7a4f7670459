pub mod believed
pub mod Encoded
