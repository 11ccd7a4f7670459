pub mod Ends
pub mod Pass
pub mod Row
pub mod Store
pub mod Whole
