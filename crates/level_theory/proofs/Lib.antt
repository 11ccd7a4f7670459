pub mod Alive
pub mod Kept
pub mod Local
pub mod Pending
pub mod Search
pub mod Walk
