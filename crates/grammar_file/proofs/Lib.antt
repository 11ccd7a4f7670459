pub mod Accepted
pub mod Answers
pub mod BothWays
pub mod Ready
