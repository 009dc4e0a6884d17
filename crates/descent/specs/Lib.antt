pub mod Words
pub mod Noted
pub mod Moving
