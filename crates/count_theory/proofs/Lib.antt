pub mod Counting
pub mod Here
pub mod Kth
pub mod Places
