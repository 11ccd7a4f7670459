pub mod believed
pub mod Places
