pub mod Loops
pub mod Parts
pub mod Steps
pub mod Whole
