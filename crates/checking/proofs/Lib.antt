pub mod ClauseLaws
pub mod CheckLaws
pub mod SixLaws
pub mod ReadLaws
pub mod HeadLaws
pub mod VerdictLaws
