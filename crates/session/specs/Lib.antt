pub mod Input
pub mod Session
pub mod Numbers
