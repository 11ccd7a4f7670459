pub mod Alike
pub mod Encoded
pub mod FirstBytes
pub mod Grammars
pub mod Histories
pub mod Holding
