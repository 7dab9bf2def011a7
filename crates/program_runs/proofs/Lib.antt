pub mod Openings
pub mod Served
