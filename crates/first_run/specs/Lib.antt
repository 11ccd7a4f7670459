pub mod Fill
pub mod First
