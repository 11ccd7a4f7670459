pub mod All
pub mod Lists
pub mod Told
