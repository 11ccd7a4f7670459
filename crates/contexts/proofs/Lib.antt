pub mod Contexts
pub mod Ends
pub mod Forms
pub mod NumberedKinds
