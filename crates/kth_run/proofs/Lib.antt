pub mod Chosen
pub mod Dues
pub mod Sizes
pub mod Walking
pub mod Whole
