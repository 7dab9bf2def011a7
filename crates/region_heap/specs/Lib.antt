pub mod Marks
pub mod Places
pub mod Ownership
pub mod Heaps
