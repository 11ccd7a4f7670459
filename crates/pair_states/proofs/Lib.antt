pub mod Derivatives
pub mod Finished
pub mod Grammars
