pub mod believed
pub mod Extremes
pub mod Forms
pub mod Parts
pub mod Positions
pub mod Runs
pub mod Steps
pub mod Tests
