pub mod Keys
pub mod Ready
pub mod Table
