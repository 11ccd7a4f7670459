pub mod Depth
pub mod Pairs
