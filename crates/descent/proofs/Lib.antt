pub mod MoveLaws
pub mod DescentLaws
pub mod Examples
