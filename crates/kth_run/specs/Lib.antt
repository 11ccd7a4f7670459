pub mod Kth
pub mod Search
pub mod Walk
