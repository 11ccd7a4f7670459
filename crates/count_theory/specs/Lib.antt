pub mod believed
pub mod Allowed
pub mod Counts
pub mod Kth
