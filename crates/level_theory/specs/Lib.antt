pub mod Kept
pub mod Local
pub mod Masks
pub mod Pending
pub mod Walk
