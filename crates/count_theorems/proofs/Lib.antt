pub mod Stepwise
pub mod Sums
