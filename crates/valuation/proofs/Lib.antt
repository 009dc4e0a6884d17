pub mod Values
pub mod TableLaws
