pub mod believed
pub mod HistoryTokens
pub mod Wellformed
