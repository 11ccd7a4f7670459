pub mod believed
pub mod ChoiceTest
pub mod Counted
pub mod KeptTest
