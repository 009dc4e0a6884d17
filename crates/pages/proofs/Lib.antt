pub mod FillLaws
pub mod PageLaws
