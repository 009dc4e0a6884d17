pub mod Sets
pub mod Judged
pub mod Symmetry
pub mod Former
pub mod Fitting
pub mod Index
pub mod Sought
