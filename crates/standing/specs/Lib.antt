pub mod Keyed
pub mod Admitted
