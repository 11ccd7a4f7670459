pub mod Grammars
pub mod Kept
pub mod MatchedGrammars
pub mod WideGrammars
pub mod WideHistories
