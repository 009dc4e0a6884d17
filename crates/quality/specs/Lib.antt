pub mod Rounding
pub mod Efficiency
