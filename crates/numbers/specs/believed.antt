pub mod Field
pub mod Number
