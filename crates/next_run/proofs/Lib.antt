pub mod Behind
pub mod Positions
pub mod Rewriting
pub mod Successor
