pub mod Choices
pub mod Sets
pub mod Words
