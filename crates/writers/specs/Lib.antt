pub mod believed
pub mod Longer
