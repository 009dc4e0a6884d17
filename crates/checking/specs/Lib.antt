pub mod Checking
pub mod Reading
pub mod SixClauses
