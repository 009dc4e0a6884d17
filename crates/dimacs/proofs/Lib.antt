pub mod Runs
pub mod NumberLaws
pub mod WordLaws
pub mod ReadLaws
pub mod LineLaws
pub mod Examples
