pub mod Capped
pub mod Products
