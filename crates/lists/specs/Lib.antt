pub mod Tests
pub mod Tables
pub mod Sums
pub mod Writing
