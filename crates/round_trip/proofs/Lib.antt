pub mod Answers
pub mod Longest
pub mod NotWritten
pub mod RoundTrip
