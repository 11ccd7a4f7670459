pub mod Pass
pub mod Written
pub mod Counts
pub mod Passed
