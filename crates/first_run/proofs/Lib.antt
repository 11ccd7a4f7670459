pub mod Passing
pub mod Sofar
pub mod Whole
