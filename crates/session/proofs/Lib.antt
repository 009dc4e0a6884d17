pub mod DividerLaws
pub mod SessionLaws
pub mod Theorem
pub mod Numbers
pub mod Examples
