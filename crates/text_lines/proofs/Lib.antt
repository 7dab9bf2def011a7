pub mod Digits
pub mod PrintedNumbers
pub mod NumberBounds
pub mod LineBytes
pub mod Written
pub mod FirstFaults
