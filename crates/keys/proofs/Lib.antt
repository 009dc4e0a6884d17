pub mod Sums
pub mod KeyLaws
pub mod Counts
pub mod MarkLaws
pub mod RightLaws
