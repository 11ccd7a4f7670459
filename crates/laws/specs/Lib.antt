pub mod Any
pub mod Distinct
