pub mod Calls
pub mod Find
pub mod Listing
