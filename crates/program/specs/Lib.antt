pub mod Program
pub mod Together
