pub mod Building
pub mod Chains
pub mod Classes
pub mod Goals
pub mod Kept
pub mod Listed
pub mod Walk
