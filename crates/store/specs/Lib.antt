pub mod Literals
pub mod Numerals
pub mod Refusals
pub mod Stores
pub mod Identity
pub mod Held
