pub mod Writing
pub mod DigitLaws
pub mod LineLaws
pub mod AsRead
pub mod Examples
