pub mod PairLaws
pub mod Theorem
pub mod OnTable
pub mod Examples
