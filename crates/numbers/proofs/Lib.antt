pub mod Fields
pub mod Results
pub mod Standing
pub mod Written
