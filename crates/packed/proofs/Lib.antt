pub mod Bits
pub mod Form
pub mod Trips
pub mod OrderLaws
pub mod Differ
pub mod Writing
pub mod Runs
pub mod Examples
