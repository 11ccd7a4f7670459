pub mod Choices
pub mod Counts
pub mod Examples
pub mod General
pub mod Sets
pub mod WideNames
