pub mod Sent
pub mod Returns
pub mod Walks
pub mod Visiting
pub mod Scan
pub mod Largest
pub mod Once
