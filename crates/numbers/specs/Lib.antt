pub mod believed
pub mod Written
