pub mod Grammar
pub mod Matched
pub mod Order
