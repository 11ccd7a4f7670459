pub mod Accepting
pub mod Depths
pub mod Turns
