pub mod Ends
pub mod RuleSet
pub mod Words
