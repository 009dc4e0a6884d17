pub mod ProgramLaws
pub mod Together
pub mod OutputLength
pub mod OwnStore
