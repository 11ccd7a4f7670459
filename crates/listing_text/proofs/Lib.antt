pub mod Pieces
pub mod Sent
pub mod Short
pub mod Turns
pub mod Whole
