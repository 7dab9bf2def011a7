pub mod Certified
pub mod Returned
