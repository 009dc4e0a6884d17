pub mod Index
pub mod Walks
