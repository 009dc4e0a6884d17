pub mod Climbing
pub mod Theorem
