pub mod Below
pub mod Digits
pub mod Sixes
pub mod Walks
