pub mod believed
pub mod Calls
