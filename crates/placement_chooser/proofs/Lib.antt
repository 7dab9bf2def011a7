pub mod Entries
pub mod Gains
pub mod BestSoFar
pub mod Alone
