pub mod HistoryFile
