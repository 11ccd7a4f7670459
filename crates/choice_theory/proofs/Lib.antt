pub mod Choices
pub mod Neighbours
pub mod Runs
