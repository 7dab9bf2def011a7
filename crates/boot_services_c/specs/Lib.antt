pub mod Blocks
pub mod Cores
pub mod Lending
pub mod MadeCores
pub mod Places
