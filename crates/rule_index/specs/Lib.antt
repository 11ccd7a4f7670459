pub mod Building
pub mod Chain
pub mod Classes
pub mod Goals
pub mod Index
pub mod Once
