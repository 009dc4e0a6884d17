pub mod Bounds
pub mod WrittenLaws
pub mod Text
