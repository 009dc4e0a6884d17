pub mod RowLaws
pub mod CursorLaws
