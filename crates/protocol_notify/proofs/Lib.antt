pub mod Loops
pub mod Keyed
