pub mod Ends
pub mod Members
pub mod RuleSet
pub mod Words
pub mod Sums
pub mod Walked
