pub mod Places
pub mod Told
