pub mod GrammarBefore
pub mod NarrowGrammar
pub mod NarrowHistory
pub mod TwoBytes
