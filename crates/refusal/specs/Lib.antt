pub mod believed
pub mod Numbered
