pub mod Figures
pub mod Shares
