pub mod Depths
pub mod Stacks
