pub mod Bits
pub mod Choices
pub mod OneCall
