pub mod GrammarFile
