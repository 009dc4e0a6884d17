pub mod Lines
pub mod Stated
pub mod Names
