pub mod believed
pub mod GrammarTable
pub mod Wellformed
