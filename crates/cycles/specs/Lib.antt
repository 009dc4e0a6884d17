pub mod Cycles
pub mod Marks
