pub mod PairExample
pub mod Pairs
