pub mod Encodes
pub mod Finished
pub mod Wide
