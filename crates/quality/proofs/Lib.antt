pub mod Rounding
pub mod Laws
pub mod Examples
