pub mod MarkOf
