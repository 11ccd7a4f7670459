pub mod Earlier
pub mod Keys
pub mod Tables
