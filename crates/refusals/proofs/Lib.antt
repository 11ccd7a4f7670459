pub mod Codes
pub mod Counts
pub mod Files
pub mod Readers
pub mod Steps
pub mod Writers
