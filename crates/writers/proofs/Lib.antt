pub mod Longer
pub mod Passing
