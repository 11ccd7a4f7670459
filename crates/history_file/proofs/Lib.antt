pub mod Accepted
pub mod Answers
pub mod BothWays
pub mod Padded
pub mod Shapes
pub mod Tokens
