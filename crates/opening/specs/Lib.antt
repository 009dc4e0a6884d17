pub mod Problem
pub mod Clauses
pub mod Opening
pub mod Former
